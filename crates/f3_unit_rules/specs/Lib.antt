pub mod Units
pub mod Inner
pub use Rattle.f3_part_rules.specs.Members
