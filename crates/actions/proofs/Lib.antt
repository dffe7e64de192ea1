-- What later proofs cite of an action: that it fits, and how large it is. Assumes nothing.
pub mod Sums
