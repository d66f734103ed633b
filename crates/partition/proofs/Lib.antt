pub mod PoolKept
pub mod Resizing
pub mod Opening
mod Carrying
mod Committing
mod Rows
pub mod Entries
pub mod Bits
mod OpensAgain
mod OpensWith
pub mod Pairing
