pub mod Counted
pub mod Moments
