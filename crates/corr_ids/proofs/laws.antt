pub mod Century
pub mod Civil
pub mod DaySpelling
pub mod Spelling
