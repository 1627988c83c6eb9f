pub mod Names
pub mod Begun
