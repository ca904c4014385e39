pub mod Counts
pub mod Parts
pub mod Places
pub mod Searches
pub mod Stored
