pub mod NameRules
pub mod NameFronts
pub mod NamePlaces
pub mod NameLaws
pub mod Renames
