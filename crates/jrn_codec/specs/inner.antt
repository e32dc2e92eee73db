pub mod Answers
pub mod ChangeReading
pub mod HeaderReading
pub mod Reading
pub mod RecordReading
pub mod Writing
