-- Numbers as bytes. Assumes nothing.
pub mod BigEndian
