pub mod Room
pub mod Twice
pub mod Pieces
mod Rows
