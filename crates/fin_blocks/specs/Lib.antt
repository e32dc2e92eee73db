pub mod Groups
pub mod Forms
pub mod User
pub mod Text
pub mod Blocks
pub mod Sending
pub mod inner
