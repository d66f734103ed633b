pub mod Room
pub mod Numbers
