pub mod Digits
pub mod States
pub mod Runs
pub mod Standing
