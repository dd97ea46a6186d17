pub mod Words
pub mod Order
pub mod LookupLaws
pub mod Counts
pub mod Keys
pub mod KeyLaws
