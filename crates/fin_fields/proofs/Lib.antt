pub mod laws
pub mod CutSoFar
pub mod Texts
pub mod ReadBack
pub mod Fit
pub mod Plain
pub mod Formats
