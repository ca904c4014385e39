pub mod Conversions
pub mod Cuts
pub mod Found
pub mod Laws
pub mod Lists
pub mod Logic
pub mod Texts
pub mod Wildcards
