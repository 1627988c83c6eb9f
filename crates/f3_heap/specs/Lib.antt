pub mod Answers
pub mod Arena
pub mod FullAt
pub mod Laws
pub mod Plain
pub use Rattle.f3_heap_laws.specs.Account
pub use Rattle.f3_live_blocks.specs.Blocks
pub use Rattle.f3_heap_laws.specs.Gaps
