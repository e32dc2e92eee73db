pub mod Rests
pub mod Days
pub mod DayFile
pub mod Reordered
pub mod Settled
pub mod LineLists
pub mod FailingLeg
pub mod Totals
