pub mod Entries
pub mod Found
pub mod Once
pub mod Rows
pub mod Walks
