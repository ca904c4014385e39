pub mod Held
pub mod Laws
pub mod Placing
pub mod Sparse
pub mod Tables
