pub mod Fields
pub mod Faults
pub mod Places
pub mod Good
pub mod Kinds
pub mod Values
pub mod Laws
