pub mod ChangeNumbers
pub mod Fields
pub mod Numerals
pub mod Parts
pub mod Targets
pub mod Tokens
pub mod Walks
