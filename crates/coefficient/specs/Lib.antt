-- The capacity coefficient, and where its cap governs. Assumes nothing.
pub mod Coefficient
pub mod Governs
