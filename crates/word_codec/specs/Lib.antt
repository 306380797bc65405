pub mod Utf8
pub mod Charsets
pub mod Words
pub mod Contents
pub mod Texts
pub mod Laws
pub mod Found
