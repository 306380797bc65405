mod Numbers
pub mod Cuts
mod Places
mod Turns
mod Examples
