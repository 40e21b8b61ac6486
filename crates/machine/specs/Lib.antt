pub mod Trees
pub mod Views
pub mod Meanings
pub mod Cells
