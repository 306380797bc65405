pub mod RowKey
pub mod Listed
pub mod Blocks
pub mod InsertLaws
pub mod Counts
