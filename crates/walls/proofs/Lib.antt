-- What callers cite: the running values and their rows, the ranges, how large the words of the rows are, and demand 3 of the rows.
pub mod Ranges
pub mod Running
pub mod Roots
pub mod Demands
pub mod Rows
pub mod Sizes
pub mod Governs
