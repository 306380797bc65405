pub mod Rebuilding
pub mod Parts
