pub mod Names
pub mod Asked
pub mod Told
pub mod InternalDates
pub mod Items
pub mod Laws
