pub mod Flat
pub mod Passes
pub mod Parts
pub mod Sheets
pub mod Texts
pub mod Drafts
pub mod Owed
pub mod Answered
