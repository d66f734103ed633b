pub mod KeptWords
pub mod BusyCalls
pub mod Alone
pub mod TceCalls
pub mod TcePlanCalls
pub mod Ungranted
pub mod Landings
mod Rows
