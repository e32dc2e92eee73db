pub mod laws
mod Steps
mod Torn
