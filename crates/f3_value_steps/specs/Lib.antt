pub mod Ends
pub mod Inner
