pub mod Items
pub mod Journals
pub mod Sizes
pub mod Rooms
pub mod Days
pub mod Findings
