pub mod Limits
pub mod Distances
