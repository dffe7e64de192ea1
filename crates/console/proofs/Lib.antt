-- What the proofs of this crate cite. Assumes nothing.
pub mod Printing
