pub mod Positions
pub mod Notes
pub mod Plans
pub mod Handing
pub mod Meaning
