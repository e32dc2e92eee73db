pub mod laws
pub mod Growth
pub mod Fitting
