-- What later proofs cite: the integers read by naturals, and the laws of up and down.
pub mod Integers
pub mod Magnitudes
pub mod Multiply
pub mod Quotients
pub mod Rounding
