pub mod Outlines
pub mod Scopes
pub mod Kinds
pub mod Blocks
pub use Rattle.f3_part_names.specs.Names
pub use Rattle.f3_part_names.specs.Given
