pub mod Lines
pub mod Texts
pub mod Reading
pub mod Commands
pub mod Replies
pub mod Session
