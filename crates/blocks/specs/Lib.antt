-- A block of storeys, and the commands of a file. 02, No. 7. Assumes nothing.
pub mod Sets
pub mod FileCommands
