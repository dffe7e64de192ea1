-- Laws of a block's sets, and of the commands of a file. Assumes nothing.
pub mod Sets
pub mod Searching
pub mod FileCommands
pub mod GivenTypes
