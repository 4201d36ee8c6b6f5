pub mod Plans
pub mod Tells
pub mod Framing
pub mod Frames
