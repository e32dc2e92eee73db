pub mod Plan
pub mod Sends
