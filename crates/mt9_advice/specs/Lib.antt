pub mod Advice
pub mod Writing
pub mod Order
pub mod inner
