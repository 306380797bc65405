pub mod Envelope
pub mod Lines
pub mod Structure
pub mod Parts
pub mod Sections
pub mod Laws
