pub mod RunText
pub mod Promises
