pub mod ActLimits
pub mod Whole
