-- The calls, the numbers of a run, demand 3 for a whole job, where the cap governs, what a block stands for, basement members, and
-- several buildings in a file. Assumes nothing.
pub mod Calls
pub mod Numbers
pub mod DemandThree
pub mod Governs
pub mod Singly
pub mod Basement
pub mod Buildings
