pub mod Nodes
pub mod Levels
pub mod Inner
