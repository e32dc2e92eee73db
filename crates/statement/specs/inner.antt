pub mod Index
pub mod Lines
pub mod Running
pub mod Valid
