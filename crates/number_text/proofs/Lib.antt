pub mod Lengths
pub mod NumberSteps
pub mod Prefixes
