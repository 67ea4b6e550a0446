mod Alters
mod Indexing
pub mod Members
