mod Examples
pub mod Matching
pub mod Sets
pub mod Levels
pub mod Wanted
