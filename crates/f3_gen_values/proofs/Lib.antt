pub mod Chains
pub mod Emitting
pub mod Rows
