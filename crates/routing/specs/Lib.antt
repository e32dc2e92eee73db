pub mod Accounts
pub mod Lent
pub mod Route
