pub mod Plain
pub mod Money
pub mod Parties
pub mod Writing
