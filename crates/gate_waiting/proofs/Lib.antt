mod First
mod Order
mod Pauses
mod Rooms
mod Told
