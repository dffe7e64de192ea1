-- What callers cite of the coefficient.
pub mod Bounds
pub mod Governs
