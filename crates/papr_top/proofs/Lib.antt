pub mod Verdicts
pub mod Endings
mod CommandEnds
pub mod ImageEnds
pub mod LineBytes
mod ImageLines
