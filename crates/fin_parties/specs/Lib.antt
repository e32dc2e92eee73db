pub mod Party
pub mod Faults
pub mod Writing
pub mod inner
