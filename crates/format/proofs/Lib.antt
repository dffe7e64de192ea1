-- Laws of the commands: a command and its operands, the range test operand by operand, what it says of each command's values,
-- the command at an offset and the types of its values. Assumes nothing.
pub mod OtherBytes
pub mod RoundTrip
pub mod RangeTest
pub mod CommandRanges
pub mod CommandRead
pub mod AtFault
pub mod Scan
pub mod ReadTypes
