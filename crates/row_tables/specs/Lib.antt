pub mod Keys
pub mod TableRows
pub mod Indexes
pub mod Names
pub mod References
pub mod RowCounts
pub mod Fits
pub mod InTurn
