pub mod Rows
pub mod RowsLaws
pub mod Spellings
pub mod SpellingsLaws
