pub mod Words
pub mod Given
pub mod Elements
pub mod Collecting
pub mod Built
mod Wanting
pub mod Arrays
