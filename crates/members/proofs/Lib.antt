-- What callers cite: the claims of each row hold, and how large the words of each row are.
pub mod Steps
pub mod Rows
pub mod ColumnHolds
pub mod BeamHolds
pub mod HingelessHolds
pub mod DetailHolds
pub mod Sizes
pub mod Governs
