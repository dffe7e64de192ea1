-- Laws of decimals and of the lines, and 01's example as theorems.
pub mod Digits
pub mod DigitBytes
pub mod Signs
pub mod Printed
mod RowSteps
mod Labels
pub mod Lengths
pub mod Examples
