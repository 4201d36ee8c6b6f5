pub mod Slave
pub mod Machine
