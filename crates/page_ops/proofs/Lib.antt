pub mod StableSorts
pub mod KeyOrders
pub mod Ranges
pub mod PlaceTies
