pub mod Cells
pub mod Messages
pub mod Refusals
pub mod Txt
pub mod Warnings
