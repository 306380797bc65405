pub mod Text
pub mod Kept
