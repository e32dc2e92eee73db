pub mod Faults
pub mod Fields
pub mod Patterns
pub mod Lent
