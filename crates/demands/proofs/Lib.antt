pub mod Last
pub mod Prefixes
pub mod Bound
pub mod ShortestLaws
pub mod Demand3
pub mod Samples
