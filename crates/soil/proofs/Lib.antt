-- The mathematics under the proofs of `soil`; `Laws` is for callers, `Figures` has the figures of 01. Assumes nothing.
pub mod Values
pub mod Patterns
pub mod Laws
pub mod Figures
