pub mod Seen
pub mod Legs
pub mod Lines
pub mod Pages
pub mod Index
pub mod Running
pub mod Valid
pub mod inner
