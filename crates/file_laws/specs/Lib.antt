pub mod Lines
pub mod FirstFaults
pub mod Paths
