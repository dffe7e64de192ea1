-- The laws of a page: its values, when one is too wide by its size, its length, the answers, values that are not too wide, and a page
-- read back; and examples.
pub mod Values
pub mod Sizes
mod LineSteps
pub mod Scan
pub mod Lengths
pub mod Answered
pub mod Narrow
pub mod ReadBack
pub mod Examples
