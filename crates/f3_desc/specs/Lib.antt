pub mod Descriptor
pub mod Laws
pub mod Layout
pub mod Section
pub mod Shape
pub mod Inner
