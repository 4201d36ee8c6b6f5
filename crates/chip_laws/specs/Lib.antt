pub mod Served
pub mod Laws
pub mod Gauges
pub mod Memories
pub mod Unaddressed
