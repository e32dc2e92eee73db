pub mod Fields
pub mod Lent
pub mod Headings
pub mod Faults
pub mod Patterns
pub mod Writing
pub mod inner
