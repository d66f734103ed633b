pub mod Apart
pub mod Placed
pub mod CachedPages
pub mod ProcessorLists
mod Rows
