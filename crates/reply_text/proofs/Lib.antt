pub mod Lengths
pub mod SummarySteps
pub mod TextSteps
mod TextRows
