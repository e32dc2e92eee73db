pub mod laws
pub mod PlacedSoFar
pub mod InTurn
pub mod TakenInTurn
pub mod Noted
