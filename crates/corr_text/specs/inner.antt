pub mod Braces
pub mod Lines
