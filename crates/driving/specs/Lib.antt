pub mod States
pub mod Driving
