pub mod Moves
pub mod Unbounding
