pub mod Awaited
pub mod Units
