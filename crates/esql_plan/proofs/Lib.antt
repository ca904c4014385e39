pub mod TypedFolds
pub mod Inductions
pub mod Fitting
pub mod Lawful
pub mod Entries
pub mod KindsGiven
