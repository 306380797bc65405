pub mod Names
pub mod Patterns
pub mod Listing
pub mod Finding
pub mod Fronts
pub mod Rows
