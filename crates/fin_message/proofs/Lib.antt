pub mod Formed
pub mod Judged
pub mod Passed
pub mod Ruled
