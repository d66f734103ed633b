pub mod Hash
pub mod Entries
pub mod Laws
