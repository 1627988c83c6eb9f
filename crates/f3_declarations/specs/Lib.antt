pub mod Kinds
pub mod Specifications
pub mod Inner
