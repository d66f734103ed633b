pub mod PartitionState
pub mod Laws
