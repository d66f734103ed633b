pub mod Words
pub mod Machine
pub mod Steps
pub mod UnlockedRead
pub mod Laws
pub mod Table
pub mod Bytes
