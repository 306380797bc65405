pub mod Telling
pub mod FlagRows
