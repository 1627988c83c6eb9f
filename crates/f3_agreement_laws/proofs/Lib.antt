pub mod Free
pub mod Visible
pub mod Declared
pub mod Known
pub mod Types
pub mod Procedures
