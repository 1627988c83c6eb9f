pub mod Effect
pub mod Part
pub mod Parts
pub mod Needs
pub mod Words
