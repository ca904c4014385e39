mod Wholes
mod Bounds
mod Places
mod Rises
mod Walked
mod Spreads
mod Documented
mod Members
mod Joins
mod Properties
mod Takings
mod Cuts
mod Loads
mod Shaped
pub mod Loadable
mod Sorted
pub mod OneMapping
mod Overs
