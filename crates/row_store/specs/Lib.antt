pub mod ThreeFiles
pub mod OpenLog
pub mod Holding
pub mod Crashes
pub mod Bodies
pub mod Kept
pub mod Loading
pub mod Refusals
