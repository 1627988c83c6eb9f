pub mod Room
pub mod Steps
pub mod Runs
pub mod Whole
pub mod Reached
