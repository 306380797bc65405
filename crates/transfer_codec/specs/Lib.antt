pub mod Scan
pub mod Base64
pub mod Layout
pub mod Quoted
pub mod Engines
pub mod Laws
