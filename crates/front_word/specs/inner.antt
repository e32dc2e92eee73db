pub mod Blank
pub mod Prefix
pub mod Rule
pub mod Steps
pub mod Views
