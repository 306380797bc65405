pub mod Ready
pub mod Does
pub mod Answers
pub mod Users
pub mod Selecting
pub mod Numbers
pub mod Storing
pub mod Fetching
