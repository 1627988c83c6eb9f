pub mod Dims
pub mod Parts
pub mod Sections
