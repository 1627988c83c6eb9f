pub mod Runs
pub mod Expressions
pub mod Types
pub mod Statements
pub mod Whole
