mod Splitting
mod Telling
