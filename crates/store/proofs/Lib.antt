pub mod Tops
pub mod Amends
pub mod Walks
pub mod Growth
pub mod Laws
