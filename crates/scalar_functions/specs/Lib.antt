pub mod Taken
pub mod Calls
pub mod Patterns
pub mod Results
