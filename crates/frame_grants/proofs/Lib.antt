pub mod Accepting
pub mod Holding
pub mod Meeting
pub mod Landing
mod Rows
