pub mod Procedures
pub mod Reaching
