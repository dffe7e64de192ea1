-- What `soil` promises: range, kinds, answers, take-down, and a soil from its bits. Assumes nothing.
pub mod Value
pub mod Kinds
pub mod Answers
pub mod Taken
pub mod Reading
