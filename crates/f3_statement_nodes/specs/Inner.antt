-- What only private functions and proofs cite.
pub mod Along
pub mod Counts
pub mod Weights
