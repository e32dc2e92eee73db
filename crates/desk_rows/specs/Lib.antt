pub mod Csv
pub mod Until
pub mod Balances
pub mod Plain
pub mod Entries
pub mod Reading
pub mod inner
