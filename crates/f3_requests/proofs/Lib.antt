pub mod Sums
pub mod Wording
pub mod Tops
pub mod Wanting
pub mod Requested
