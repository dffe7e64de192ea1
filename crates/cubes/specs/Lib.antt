-- The cubes, and the root of a ratio of inertias. Assumes nothing.
pub mod Cube
pub mod Root
