pub mod Hcalls
pub mod ReturnCodes
pub mod FlagBits
