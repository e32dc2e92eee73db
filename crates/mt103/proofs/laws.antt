pub mod Amount
pub mod Passed
pub mod Parts
