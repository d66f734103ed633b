pub mod Status
pub mod Commands
pub mod Inputs
pub mod Reading
pub mod Finish
pub mod Answer
pub mod Ends
pub mod InputLaws
