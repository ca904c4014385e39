pub mod Hashed
pub mod Lookups
pub mod Matches
pub mod Places
pub mod Held
