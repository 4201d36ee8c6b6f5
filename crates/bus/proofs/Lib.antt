pub mod Halves
pub mod Banks
pub mod Slots
