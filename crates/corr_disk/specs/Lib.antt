pub mod Calls
pub mod Disk
pub mod Laws
pub mod Past
pub mod Tearing
pub mod inner
