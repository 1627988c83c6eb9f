pub mod Candidates
pub mod Looked
