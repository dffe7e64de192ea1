-- Ranges, and the ranges of the quantities of a job. Assumes nothing.
pub mod Range
pub mod Quantities
