pub mod Kept
pub mod Free
pub mod Demands
pub mod Same
