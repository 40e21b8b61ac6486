pub mod Turns
pub mod Bounds
pub mod Standings
pub mod Starts
pub mod Trails
pub mod Answering
pub mod Histories
