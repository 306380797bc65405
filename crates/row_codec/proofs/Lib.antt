pub mod Fields
pub mod OneChange
pub mod AllChanges
pub mod Fitting
