pub mod LentMasks
pub mod Walked
