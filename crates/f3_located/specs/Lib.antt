pub mod Finds
pub mod Inner
