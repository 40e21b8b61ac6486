pub mod Tables
pub mod Index
pub mod Laws
pub mod Meaning
pub mod Calls
