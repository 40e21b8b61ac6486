pub mod Grammars
pub mod Answers
