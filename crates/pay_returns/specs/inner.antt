pub mod Equal
pub mod Opposite
pub mod Returns
pub mod Texts
pub mod Walking
