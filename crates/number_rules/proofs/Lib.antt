pub mod Quotients
pub mod Spelling
pub mod Totals
