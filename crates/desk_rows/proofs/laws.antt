pub mod Cancelling
pub mod Plain
pub mod Reading
