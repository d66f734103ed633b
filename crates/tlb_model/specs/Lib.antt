pub mod Cache
pub mod Sets
pub mod CacheAfter
pub mod Processor
