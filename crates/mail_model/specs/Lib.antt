pub mod Machine
pub mod Pieces
pub mod Changes
pub mod Between
pub mod HandedOut
