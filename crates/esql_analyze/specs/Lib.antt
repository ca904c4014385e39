pub mod Names
pub mod Regulars
pub mod Plans
pub mod Policies
