pub mod Text
pub mod Summary
