pub mod Refusals
pub mod Cells
pub mod Watches
pub mod Runs
pub mod Keys
pub mod Entries
