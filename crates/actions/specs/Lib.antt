-- An action V ± a·E, and what the functions ask of its operands. Assumes nothing.
pub mod Action
pub mod Ranges
