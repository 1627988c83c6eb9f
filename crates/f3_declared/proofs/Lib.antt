pub mod Counting
pub mod Sorts
pub mod Conflicting
pub mod Finalizing
pub mod Locals
