pub mod Columns
pub mod Encoding
pub mod Codec
pub mod Reading
