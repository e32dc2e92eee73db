pub mod laws
pub mod Refused
pub mod Outcome
pub mod Readings
pub mod Written
pub mod Fit
pub mod RoundTrip
pub mod Complete
