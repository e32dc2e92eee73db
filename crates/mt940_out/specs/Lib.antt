pub mod Order
pub mod Page
pub mod Writing
pub mod Notes
pub mod Pages
pub mod Valid
pub mod inner
