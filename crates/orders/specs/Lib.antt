pub mod Orders
pub mod Tests
pub mod Held
pub mod Tables
pub mod Fills
pub mod Answers
