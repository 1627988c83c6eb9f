pub mod Expressions
pub mod Declarations
pub mod Statements
pub mod Tree
