pub mod Words
pub mod Elements
pub mod Choices
pub mod Ones
