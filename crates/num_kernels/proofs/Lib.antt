pub mod Bits
pub mod Marked
pub mod Numbers
pub mod Puts
pub mod Quotients
pub mod Steps
pub mod Wholes
