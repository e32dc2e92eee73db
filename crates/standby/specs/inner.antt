pub mod Following
pub mod Held
pub mod Shipping
pub mod Taking
