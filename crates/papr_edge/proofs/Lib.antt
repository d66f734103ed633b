pub mod Outcomes
pub mod CutLines
pub mod JudgedInputs
pub mod Completeness
