pub mod Literals
pub mod Units
pub mod Turns
pub mod Lexer
