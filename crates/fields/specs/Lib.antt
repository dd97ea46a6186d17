pub mod BoolLaws
pub mod Field
pub mod SetsLaws
pub mod FieldLaws
pub mod BasicLaws
