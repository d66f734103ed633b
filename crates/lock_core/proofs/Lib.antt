pub mod Lists
pub mod Noted
pub mod Kept
pub mod Moves
pub mod Steps
pub mod Looks
pub mod Marks
pub mod Passing
pub mod Whole
pub mod Opening
pub mod FrontsKept
pub mod Listed
pub mod Telling
pub mod Shown
pub mod StateSteps
mod FrontRows
pub mod Rows
