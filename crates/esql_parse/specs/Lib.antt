pub mod Grammar
pub mod Limits
pub mod Machine
pub mod Refusals
pub mod Spells
pub mod Depth
pub mod WithinLimits
