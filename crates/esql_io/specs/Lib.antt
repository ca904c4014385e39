pub mod Calls
pub mod Files
pub mod MemoryFiles
pub mod MemorySinks
pub mod Sinks
