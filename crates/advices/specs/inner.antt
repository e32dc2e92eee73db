pub mod Messages
pub mod Spelled
