-- The mathematics under the rows of a footing. `Held`, `Sizes` and `Contact` are for callers: demand 3 of a row, how
-- large its words are, and what the contact changes in it. Assumes nothing.
pub mod Flags
pub mod Directions
pub mod Eccentricity
pub mod Sliding
pub mod Rows
pub mod Sides
pub mod Held
pub mod Sizes
pub mod Contact
