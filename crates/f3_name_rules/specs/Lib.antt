pub mod Intrinsics
pub mod References
pub mod NameBreaks
pub mod Inner
