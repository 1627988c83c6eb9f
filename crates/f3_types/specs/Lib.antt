pub mod Breaks
pub mod Parts
pub mod Types
pub mod Answers
pub mod Scenes
pub mod Inner
pub use Rattle.f3_unit_rules.specs.Units
pub use Rattle.f3_unit_rules.specs.Members
