pub mod Added
pub mod Counted
pub mod Legs
pub mod Quoted
pub mod laws
