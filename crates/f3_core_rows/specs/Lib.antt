pub mod Destroying
pub mod Control
pub mod Shape
