pub mod Ending
pub mod Hands
pub mod Line
pub mod Placing
pub mod Seating
pub mod Serving
pub mod Tasks
