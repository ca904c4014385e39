pub mod Csv
pub mod Json
pub mod Widths
pub mod Writers
