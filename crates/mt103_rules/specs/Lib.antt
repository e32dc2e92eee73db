pub mod Parties
pub mod Instructions
pub mod Rules
