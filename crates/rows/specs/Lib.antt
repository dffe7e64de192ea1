-- The rows of a command. Assumes nothing.
pub mod Nearest
pub mod Rows
pub mod Writing
