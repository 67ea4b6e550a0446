pub mod Again
pub mod Depths
pub mod Items
pub mod Places
pub mod SmallTexts
pub mod Whole
