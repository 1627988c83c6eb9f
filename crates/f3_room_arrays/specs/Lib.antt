pub mod Words
pub mod Elements
pub mod Changes
pub mod Copies
pub mod Laws
pub mod Inner
