pub mod Lexing
pub mod Cut
