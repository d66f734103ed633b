pub mod Rehash
pub mod Pending
pub mod Resize
pub mod TableMemory
pub mod Translations
pub mod Holders
