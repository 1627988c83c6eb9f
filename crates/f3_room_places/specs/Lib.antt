pub mod Places
pub mod Starts
pub mod Components
pub mod Scalars
