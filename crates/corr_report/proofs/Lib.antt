pub mod laws
pub mod Sums
pub mod Currencies
pub mod Days
pub mod Fitting
