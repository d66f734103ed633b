pub mod Pages
pub mod Entries
pub mod Calls
pub mod TcePlans
pub mod Devices
pub mod Laws
