pub mod Nodes
pub mod Levels
pub mod Agreement
pub mod Entities
pub mod Laws
