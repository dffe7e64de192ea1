-- What callers cite: the claims of both rows hold, both reported values stray by under one unit, and how large the words of a row are.
pub mod Rows
pub mod BasementHolds
pub mod Sizes
