-- Laws of the layout: numbers and their bounds, the known bytes and their kinds, where operands are read, and figures of 01. Assumes nothing.
pub mod Numbers
pub mod KnownBytes
pub mod KindBytes
pub mod OperandsRead
pub mod Widths
