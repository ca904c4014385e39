pub mod Contents
pub mod Forms
pub mod Gaps
pub mod Modes
pub mod Steps
pub mod Tokens
pub mod Words
