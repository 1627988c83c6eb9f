pub mod Views
pub mod Moving
pub mod Nesting
