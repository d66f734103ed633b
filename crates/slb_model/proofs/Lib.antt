pub mod Buffers
pub mod Lowest
mod Rows
