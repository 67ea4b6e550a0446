pub mod Holding
pub mod Opened
pub mod Shown
pub mod Standing
pub mod Versions
