pub mod Store
pub mod Rules
pub mod Chips
pub mod Parts
pub mod States
