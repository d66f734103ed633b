pub mod Ranges
pub mod Tags
pub mod Rows
pub mod SamePages
