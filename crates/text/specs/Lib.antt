-- The text of the listing program: numbers in decimal, and the lines. Assumes nothing.
pub mod Decimal
pub mod Lines
