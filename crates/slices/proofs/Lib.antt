-- Laws of writing into a lent slice, and of rows as chunks. Assumes nothing.
pub mod Writing
pub mod Rows
