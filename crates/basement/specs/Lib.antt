-- Basement member: its two rows, exact values and claims. Assumes nothing.
pub mod Basement
