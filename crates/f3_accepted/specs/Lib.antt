pub mod Accepted
pub mod Checked
pub mod Refusals
pub mod Inner
pub use Rattle.f3_types.specs.Breaks
pub use Rattle.f3_types.specs.Types
