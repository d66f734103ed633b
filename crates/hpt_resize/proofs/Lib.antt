pub mod Groups
pub mod Rehashed
pub mod Finds
pub mod Placed
mod Preparing
pub mod Holding
pub mod Holders
pub mod OpeningStates
pub mod StateBack
mod Rows
