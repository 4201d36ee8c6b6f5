pub mod Symbols
pub mod Addresses
pub mod Levels
pub mod Turns
pub mod Banks
pub mod Texts
