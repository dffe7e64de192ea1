-- Column, beam, member without hinges and detail: rows, exact values and claims. Assumes nothing.
pub mod Column
pub mod Beam
pub mod Hingeless
pub mod Detail
pub mod Steps
pub mod Governs
