-- The figures of 01 marked [p]: their operands, and one statement about the rules. Assumes nothing.
pub mod Operands
pub mod Figures
