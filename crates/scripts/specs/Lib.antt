pub mod Scripts
pub mod Alone
pub mod Frames
