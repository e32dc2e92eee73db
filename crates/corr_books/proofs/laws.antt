pub mod Belonging
pub mod Acknowledged
pub mod Histories
pub mod Moments
