-- Demand 3 for one row: what is claimed of its demands, its strengths, its checks and its verdict; what a word of it tells
-- that is 1 for yes; and how large its words are. Assumes nothing.
pub mod Verdict
pub mod Words
pub mod Told
pub mod Sizes
pub mod Exact
pub mod Claims
