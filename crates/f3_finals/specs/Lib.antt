pub mod Candidates
pub mod Inner
