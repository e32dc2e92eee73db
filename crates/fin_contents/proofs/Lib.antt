pub mod laws
pub mod OfX
