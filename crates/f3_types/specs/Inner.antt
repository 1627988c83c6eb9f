-- What only private functions and proofs cite.
pub mod Rows
pub mod Phases
