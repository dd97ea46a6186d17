pub mod PickLaws
