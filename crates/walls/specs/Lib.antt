-- Wall base and storeys: rows, exact values and claims. Assumes nothing.
pub mod Base
pub mod Storey
pub mod Running
pub mod Governs
