pub mod laws
pub mod Numbers
pub mod Fitting
