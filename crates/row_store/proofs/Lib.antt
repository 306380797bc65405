pub mod Payloads
pub mod FoundRows
pub mod NewIds
pub mod AfterCrash
pub mod Loads
pub mod InMemory
