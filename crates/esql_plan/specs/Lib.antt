pub mod Rules
pub mod Functions
pub mod Values
pub mod Exprs
pub mod Signatures
pub mod Names
pub mod Fits
