-- What the calls that write answer for other languages of a soil value that is no number. Assumes nothing.
pub mod NanRefused
