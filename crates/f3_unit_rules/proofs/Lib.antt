mod Entities
mod Places
mod Along
mod Parts
pub use Rattle.f3_part_rules.proofs.Walked
