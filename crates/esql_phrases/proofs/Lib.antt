pub mod Begins
pub mod DepthOfTree
pub mod Fits
pub mod Lines
pub mod Sizes
pub mod Spans
pub mod Stands
