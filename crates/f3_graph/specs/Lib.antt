pub mod Units
pub mod Breaks
pub mod Order
pub mod Faults
pub mod Inner
