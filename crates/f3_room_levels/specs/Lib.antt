pub mod Initial
pub mod Writing
pub mod Levels
pub mod Laws
