pub mod Currencies
pub mod Escaping
pub mod Once
