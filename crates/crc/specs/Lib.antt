pub mod Crc
pub mod CrcLaws
pub mod XorLaws
pub mod Table
pub mod TableLaws
pub mod Samples
