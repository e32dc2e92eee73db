pub mod Equality
pub mod Noticing
pub mod Tagging
pub mod Words
pub mod Owned
