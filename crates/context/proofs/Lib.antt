-- Laws of the context: what stays sound, the ranges that the rules ask, and that a state shows the context.
-- Assumes nothing.
pub mod Ranges
pub mod Laws
pub mod Shown
