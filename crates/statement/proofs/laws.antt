pub mod Accepting
pub mod Balances
pub mod Closing
pub mod Fronts
pub mod Placing
pub mod Readable
