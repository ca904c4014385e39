pub mod Queries
pub mod Prepared
