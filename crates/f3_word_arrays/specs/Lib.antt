pub mod Items
pub mod Room
pub mod Rows
