pub mod Pool
pub mod Free
pub mod Tree
pub mod Way
