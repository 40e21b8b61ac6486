pub mod Spans
pub mod Walks
pub mod Packing
pub mod Begins
pub mod Laws
pub mod Links
