pub mod GroupBits
pub mod RebuiltPage
pub mod PageLemmas
pub mod Rows
