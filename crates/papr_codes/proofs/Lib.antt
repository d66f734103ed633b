pub mod FlagTests
mod Rows
