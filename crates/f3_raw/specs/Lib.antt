pub mod Words
pub mod Ownership
pub mod Memory
pub mod Region
