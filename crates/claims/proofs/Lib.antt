-- The laws by which the claims of a row follow from a few facts of its demands; the sizes of its words; what a word tells.
pub mod Orders
pub mod Checks
pub mod Rounded
pub mod Bits
pub mod Sizes
pub mod Told
pub mod UpperLower
