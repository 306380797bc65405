mod Lines
mod Texts
mod Ending
mod Examples
