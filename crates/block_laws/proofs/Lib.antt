pub mod Holds
pub mod Reached
