pub mod CallsSeen
pub mod Parts
pub mod StatsRules
pub mod StatsSeen
pub mod Behind
