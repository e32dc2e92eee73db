pub mod Places
pub mod Found
pub mod Standing
pub mod Order
pub mod Texts
pub mod Entering
pub mod Alone
