pub mod laws
mod After
mod Bytes
mod Calls
mod EntryImages
mod Filled
mod Fronts
mod Head
mod LastPiece
mod Opened
mod Pieces
mod ReadTo
mod Readings
mod Records
mod Sent
mod Shut
mod Taken
mod Whole
