pub mod File
pub mod Shown
pub mod Whole
pub mod Cutting
pub mod Tidy
pub mod Pieces
pub mod inner
