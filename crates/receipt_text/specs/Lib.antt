pub mod Receipts
pub mod Cuts
pub mod Marks
pub mod Laws
