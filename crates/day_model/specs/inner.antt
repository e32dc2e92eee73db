pub mod CoreLedger
pub mod CoreSound
pub mod Gap
pub mod Legal
pub mod Listed
pub mod Pairs
pub mod RowTests
