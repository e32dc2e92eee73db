pub mod Rules
pub mod Message
pub mod Writing
pub mod Order
pub mod inner
