pub mod Bits
pub mod Serving
pub mod Cycles
pub mod Gauges
pub mod Memories
pub mod Unaddressed
pub mod News
