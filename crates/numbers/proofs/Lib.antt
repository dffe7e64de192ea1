-- Laws of numbers as bytes: the last bytes of 32 bits, the bits of an i32, written and read back. Assumes nothing.
mod Stores
mod Signs
pub mod BigEndian
