pub mod Running
pub mod Led
pub mod Showing
pub mod Tracking
pub mod Counting
