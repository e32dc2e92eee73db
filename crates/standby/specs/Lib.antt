pub mod Packets
pub mod Shipping
pub mod Worlds
pub mod Held
pub mod Following
pub mod Taking
pub mod inner
