pub mod Known
pub mod Entries
pub mod Constructs
pub mod Natures
pub mod Walk
pub mod Objects
pub mod Procedures
pub mod Inner
