pub mod Slots
pub mod Tasks
pub mod Flags
pub mod Heard
pub mod Access
