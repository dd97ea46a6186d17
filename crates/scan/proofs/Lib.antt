pub mod Table
pub mod ByteLaws
