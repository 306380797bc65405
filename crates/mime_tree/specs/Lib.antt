pub mod Trees
pub mod Contents
pub mod Sizes
pub mod Code
pub mod Falls
