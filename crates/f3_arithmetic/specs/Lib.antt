pub mod Scalars
pub mod Turns
