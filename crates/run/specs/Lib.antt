pub mod Reply
pub mod ReplyLaws
pub mod Held
