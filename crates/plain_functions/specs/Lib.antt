pub mod Bytes
pub mod Keywords
pub mod ValueOrder
pub mod Values
