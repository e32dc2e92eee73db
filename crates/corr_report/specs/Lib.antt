pub mod Lines
pub mod Report
pub mod Bookings
pub mod Totals
pub mod Generated
pub mod Summary
pub mod inner
