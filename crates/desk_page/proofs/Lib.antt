pub mod Balances
pub mod Known
pub mod Receivers
pub mod Standings
pub mod Tallies
pub mod laws
