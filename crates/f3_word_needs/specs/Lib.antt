pub mod Counts
pub mod Names
pub mod Room
pub mod Laws
pub mod Needs
