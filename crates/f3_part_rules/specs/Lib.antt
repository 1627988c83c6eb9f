pub mod Finalizers
pub mod Room
pub mod Members
pub mod Inner
