pub mod Lists
pub mod Filing
pub mod Starting
pub mod Refusing
pub mod Asking
