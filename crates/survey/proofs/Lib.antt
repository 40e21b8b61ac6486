pub mod Meeting
pub mod Walking
pub mod Levels
pub mod Holding
pub mod Turning
pub mod Marking
pub mod Surveying
