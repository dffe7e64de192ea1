-- Laws of verdicts and totals, the steps of the count, and examples. Assumes nothing.
pub mod Verdicts
pub mod Sums
pub mod Counting
pub mod Laws
pub mod Examples
