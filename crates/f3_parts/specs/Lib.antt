pub mod Pieces
pub mod Parts
pub mod Machine
pub mod Laws
