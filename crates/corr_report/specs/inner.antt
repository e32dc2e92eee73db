pub mod Outcomes
pub mod Totals
