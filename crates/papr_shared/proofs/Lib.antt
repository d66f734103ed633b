pub mod TwoPasses
pub mod NeverBusy
pub mod Endings
pub mod LentEntries
pub mod PutStates
