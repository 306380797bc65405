pub mod Folding
pub mod Printing
pub mod Laws
pub mod Counting
