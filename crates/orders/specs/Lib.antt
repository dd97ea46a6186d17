pub mod Order
pub mod OrderLaws
pub mod Picking
pub mod PickingLaws
