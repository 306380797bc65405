pub mod Told
pub mod Untold
pub mod Images
pub mod Calls
pub mod Memory
pub mod Lawful
pub mod Past
