pub mod Trees
pub mod Intrinsics
