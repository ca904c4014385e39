pub mod Best
pub mod Lanes
pub mod Marks
pub mod Steps
pub mod Totals
