pub mod Answers
pub mod Filling
pub mod Verdict
