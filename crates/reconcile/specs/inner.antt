pub mod Bounds
pub mod Breaks
pub mod Gathering
pub mod Keys
pub mod Waiting
