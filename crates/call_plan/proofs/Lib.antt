pub mod Search
pub mod EnterInTable
pub mod Suited
pub mod BulkCodes
pub mod BulkSteps
pub mod InTable
pub mod ReadSteps
pub mod RemovalSteps
pub mod RequestBits
pub mod RemovedChanges
pub mod Tame
pub mod EachCall
pub mod TrialCalls
pub mod RemovalCalls
mod Rows
