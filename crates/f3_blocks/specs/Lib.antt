pub mod Pieces
pub mod Blocks
pub mod Machine
pub mod Laws
