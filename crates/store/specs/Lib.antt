pub mod Entries
pub mod Chains
pub mod Steps
pub mod Calls
pub mod Keeping
