mod Arriving
mod Journals
mod Lasting
mod Standing
mod Starting
