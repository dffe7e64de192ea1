-- What the proofs of this crate cite. Assumes nothing.
pub mod FirstRows
pub mod Answers
pub mod Paged
