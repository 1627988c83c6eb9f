pub mod Spans
pub mod Ranges
pub mod Seen
pub mod Blocks
