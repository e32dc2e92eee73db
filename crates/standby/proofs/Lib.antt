pub mod Follows
pub mod Fronts
pub mod Kept
pub mod Numbered
pub mod Takes
pub mod laws
