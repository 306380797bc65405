pub mod Texts
pub mod Crash
