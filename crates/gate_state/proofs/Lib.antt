pub mod Decided
pub mod Deciding
pub mod Desks
pub mod Lanes
pub mod Places
