pub mod Levels
pub mod Grammar
pub mod Views
pub mod Readings
