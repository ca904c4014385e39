pub mod Cells
pub mod Entries
pub mod Keys
pub mod KeyCells
pub mod States
pub mod Maps
pub mod Grouped
pub mod Held
