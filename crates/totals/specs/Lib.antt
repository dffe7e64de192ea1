-- The verdicts of rows and their totals. Assumes nothing.
pub mod Rows
pub mod Counted
