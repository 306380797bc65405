pub mod Texts
pub mod Lines
pub mod Case
pub mod Decimals
