pub mod Differences
pub mod General
pub mod Dropped
pub mod Words
