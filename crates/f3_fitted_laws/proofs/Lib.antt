pub mod Words
pub mod Finals
pub mod Procedures
pub mod Whole
