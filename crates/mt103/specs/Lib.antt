pub mod Codes
pub mod Instructions
pub mod Message
pub mod Writing
pub mod Order
pub mod inner
