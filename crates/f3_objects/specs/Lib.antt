pub mod Tree
pub mod Holds
pub mod Copies
pub mod Boxes
pub mod Inner
