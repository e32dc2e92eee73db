pub mod Found
pub mod Order
pub mod Reading
pub mod Segments
