pub mod Ranges
pub mod Grants
