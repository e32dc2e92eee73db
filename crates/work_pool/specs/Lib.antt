pub mod Served
pub mod Fed
pub mod inner
