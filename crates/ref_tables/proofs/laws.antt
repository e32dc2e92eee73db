pub mod Records
pub mod Entered
pub mod Fine
pub mod Decimals
pub mod Charged
pub mod Numbers
