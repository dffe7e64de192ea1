-- Laws of writing a command: what stands in the slice, what is read back, what is written again. Assumes nothing.
mod Filling
pub mod SetBytes
pub mod Answered
pub mod OperandBytes
pub mod ReadBack
pub mod BlockReadBack
mod Promised
mod GivenSets
mod BlockPromised
pub mod BlockWords
pub mod FileReadBack
