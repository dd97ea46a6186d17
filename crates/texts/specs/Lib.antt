pub mod Hex
pub mod HexLaws
pub mod Written
pub mod WrittenLaws
