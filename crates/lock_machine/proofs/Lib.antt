mod Allowed
mod Memory
mod Sizes
mod Joining
