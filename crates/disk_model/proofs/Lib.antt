pub mod Tearing
pub mod History
pub mod Attempts
