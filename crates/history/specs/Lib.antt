pub mod Marks
pub mod Contest
pub mod Bytes
