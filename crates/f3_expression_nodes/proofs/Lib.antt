pub mod Powers
pub mod Trees
