pub mod Wants
pub mod Walks
