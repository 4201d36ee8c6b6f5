pub mod Checking
pub mod Fronts
pub mod Cursors
pub mod Records
pub mod Marking
