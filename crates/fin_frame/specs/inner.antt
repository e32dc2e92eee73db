pub mod Machine
pub mod Next
pub mod Shown
pub mod Whole
