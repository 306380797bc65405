pub mod Units
pub mod Growing
pub mod Changes
pub mod HandedOut
pub mod Between
pub mod Joining
pub mod Behind
