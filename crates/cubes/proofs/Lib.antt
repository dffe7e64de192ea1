-- Laws of the cubes: the rule of the table, the root by halving, figures of 01. Assumes nothing.
pub mod Figures
pub mod Halving
pub mod Roots
pub mod Rule
pub mod Held
