pub mod Rule
pub mod Known
pub mod inner
