pub mod Filling
pub mod Searching
pub mod Marks
mod Rows
