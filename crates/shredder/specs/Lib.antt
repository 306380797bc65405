pub mod Paths
pub mod MessageRows
pub mod Fitting
pub mod Distinct
pub mod Shredding
pub mod Making
