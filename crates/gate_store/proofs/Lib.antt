pub mod Deliveries
pub mod Firsts
pub mod Logged
pub mod Outlasting
pub mod Runs
pub mod Telling
