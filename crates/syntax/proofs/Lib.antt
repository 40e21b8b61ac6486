pub mod Letters
pub mod Forth
pub mod Back
pub mod Unique
