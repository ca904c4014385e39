pub mod Arguments
pub mod Calls
pub mod Patterned
pub mod Truths
