-- Commands as they are written: their bytes, the answer of the call, the slice after it, a block given as words, files. 02, No. 2 and
-- No. 7. Assumes nothing.
pub mod Bytes
pub mod Answers
pub mod BlockGiven
pub mod Files
