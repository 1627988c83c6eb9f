pub mod Nodes
pub mod Seen
pub mod Walking
pub mod Statements
pub mod Whole
