pub mod CoverLaws
pub mod Samples
pub mod Through
pub mod ThroughLaws
