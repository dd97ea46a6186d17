pub mod Statement
pub mod Shortest
