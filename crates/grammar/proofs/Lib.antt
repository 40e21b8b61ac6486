pub mod Steps
pub mod Closing
pub mod Meaning
pub mod Trees
