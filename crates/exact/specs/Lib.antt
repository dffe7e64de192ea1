-- Exact numbers: quotients rounded up and down, fractions over the naturals, signed fractions. Assumes nothing.
pub mod Quotient
pub mod Fraction
pub mod SignedFraction
pub mod Sums
