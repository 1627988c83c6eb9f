pub mod Emitted
pub mod Emission
