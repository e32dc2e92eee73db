pub mod Positions
pub mod Bounds
pub mod Cut
pub mod OfX
