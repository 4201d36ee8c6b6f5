pub mod Commands
pub mod Replies
pub mod Readings
pub mod Kinds
