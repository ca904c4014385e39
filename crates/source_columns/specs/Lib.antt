pub mod Gathered
pub mod Index
pub mod Numbers
pub mod Refusals
pub mod Taken
