pub mod Words
pub mod Machine
pub mod Steps
pub mod Runs
pub mod ActorFronts
pub mod Laws
