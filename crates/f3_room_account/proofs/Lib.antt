pub mod Counting
pub mod Using
pub mod Leaving
pub mod Exchanging
pub mod Keeping
pub mod Writing
