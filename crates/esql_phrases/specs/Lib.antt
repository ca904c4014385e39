pub mod Ends
pub mod Lexemes
pub mod Parts
pub mod Phrases
pub mod Stands
