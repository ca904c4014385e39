mod Lines
pub mod Lists
mod Readings
mod Walks
