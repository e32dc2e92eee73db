pub mod Next
pub mod Packets
pub mod Shipped
pub mod Worlds
