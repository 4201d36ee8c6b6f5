pub mod Standings
pub mod Master
