pub mod Tags
pub mod Granted
mod GroupSteps
pub mod Found
pub mod Decided
pub mod Walks
pub mod Telling
pub mod ActualPages
pub mod PageUses
pub mod Unchanged
mod Rows
pub mod Finding
pub mod Offsets
pub mod Masked
