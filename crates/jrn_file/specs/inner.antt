pub mod Faults
pub mod Journal
pub mod Making
pub mod Opening
pub mod Pieces
pub mod Sending
