-- Laws of rows: in a slice of words, how many a command has, and that they are those of its context. Assumes nothing.
pub mod Memory
pub mod Laws
pub mod RowsSame
pub mod SetRows
pub mod Nearest
