pub mod Arithmetic
pub mod Comparisons
pub mod Ranges
pub mod Spelled
pub mod Sums
