pub mod Passing
pub mod Naming
pub mod Cycling
pub mod Standing
pub mod Rising
pub use Rattle.f3_nodes.proofs.Members
