pub mod Parts
pub mod Heading
pub mod Verdict
pub mod Answers
pub mod Sound
pub mod Filling
pub mod inner
