pub mod Order
pub mod Reach
pub mod Held
pub mod Calls
