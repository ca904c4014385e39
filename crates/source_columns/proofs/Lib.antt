pub mod Again
pub mod Held
pub mod Names
pub mod Order
pub mod Walks
