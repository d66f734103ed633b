mod Drawing
mod LineLemmas
mod Granting
mod Rows
