pub mod Frames
pub mod Begins
pub mod Kept
pub mod Inner
