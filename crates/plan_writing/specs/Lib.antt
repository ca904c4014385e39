pub mod Contexts
pub mod Writings
pub mod Answers
pub mod Regulars
