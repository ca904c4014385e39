pub mod Placed
pub mod Joins
pub mod Laws
pub mod Extended
