mod Lists
pub mod Powers
mod Shape
mod Halves
mod TreeHalves
mod Rooms
mod Truth
mod Parts
mod Mending
mod Subtrees
mod Ways
mod Taking
mod Giving
mod TakingWay
mod GivingWay
pub mod Placing
pub mod Lowest
mod TreePool
mod Rows
pub mod Kept
