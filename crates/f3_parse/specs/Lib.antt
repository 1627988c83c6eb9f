pub mod Nested
pub mod Phase
pub mod Spells
pub mod Inner
