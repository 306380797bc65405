pub mod Order
pub mod Parts
pub mod Numbers
pub mod Resolving
pub mod Spans
