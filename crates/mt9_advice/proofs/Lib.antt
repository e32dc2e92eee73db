pub mod Refused
pub mod Outcome
pub mod Again
pub mod Written
pub mod Complete
pub mod laws
pub mod Rows
