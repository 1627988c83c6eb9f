pub mod Returned
pub mod Inner
