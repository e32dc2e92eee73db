pub mod Books
pub mod Twice
