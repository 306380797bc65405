pub mod OneValue
pub mod OneMail
pub mod Walks
pub mod Bodies
pub mod Children
