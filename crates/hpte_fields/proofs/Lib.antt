pub mod Masks
pub mod Again
pub mod KeptBits
pub mod PageBits
mod Rows
pub mod TableSizes
