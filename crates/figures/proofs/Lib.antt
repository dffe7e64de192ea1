-- The figures of 01 marked [p], by computation. Assumes nothing.
pub mod Computed
