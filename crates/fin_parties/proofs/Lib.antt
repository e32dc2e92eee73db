pub mod laws
pub mod BicLines
pub mod OfX
