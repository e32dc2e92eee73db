pub mod laws
pub mod ReadFaults
pub mod Cells
pub mod Standing
pub mod Entering
