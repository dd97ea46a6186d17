pub mod Spot
pub mod Text
pub mod TextLaws
pub mod Utf8
pub mod Utf8Laws
