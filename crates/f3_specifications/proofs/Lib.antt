pub mod Walking
pub mod Specifying
pub mod Summing
pub use Rattle.f3_extents.proofs.Shaping
