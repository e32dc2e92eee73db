pub mod Spelling
pub mod Record
pub mod Header
pub mod Change
pub mod Items
pub mod Answers
pub mod inner
