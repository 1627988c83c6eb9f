pub mod Nodes
pub mod Seen
pub mod Operators
pub mod Parts
pub mod Constructors
pub mod Intrinsics
pub mod Expressions
pub mod InMemory
