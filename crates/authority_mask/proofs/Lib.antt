pub mod Bits
pub mod NoMasks
mod Rows
