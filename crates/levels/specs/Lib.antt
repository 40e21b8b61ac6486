pub mod Units
pub mod Law
