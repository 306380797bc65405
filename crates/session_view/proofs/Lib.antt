pub mod Numbered
pub mod Covering
pub mod Placing
pub mod Rising
