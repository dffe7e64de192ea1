-- Footing: the two rows, exact values and claims. Assumes nothing.
pub mod Flags
pub mod Actions
pub mod Rows
pub mod Claimed
pub mod Contact
