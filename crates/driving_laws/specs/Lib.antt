pub mod Tied
pub mod Meaning
pub mod Agreement
pub mod Rows
