pub mod Characters
pub mod Counts
pub mod Joins
pub mod SeenValues
pub mod SortedNumbers
pub mod ValueLists
