pub mod Nodes
pub mod Written
pub mod Agreement
pub mod Blocks
pub mod Entities
pub mod Laws
