pub mod Taken
pub mod Performed
pub mod Parts
pub mod Walks
pub mod Selections
pub mod Inner
