pub mod Counts
pub mod Patterns
pub mod Places
pub mod Spans
pub mod Values
pub mod formers
