pub mod Hits
pub mod Refills
pub mod WalksFindPages
mod Rows
