pub mod Rows
pub mod Instruction
pub mod InstructionList
pub mod Index
pub mod inner
