pub mod Bytes
pub mod Words
pub mod Cursors
pub mod Records
pub mod Refusals
