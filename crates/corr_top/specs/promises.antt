pub mod Books
pub mod Runs
pub mod Returns
pub mod Accounts
pub mod Reconciling
pub mod Desk
pub mod Standby
