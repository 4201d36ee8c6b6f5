pub mod Spelling
pub mod Collecting
