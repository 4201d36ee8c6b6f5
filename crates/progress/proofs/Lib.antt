pub mod Follows
pub mod Room
pub mod Moves
pub mod Handing
