pub mod Paths
pub mod Members
pub mod Meaning
pub mod Told
