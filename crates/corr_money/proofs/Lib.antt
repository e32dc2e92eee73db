pub mod laws
pub mod Digits
