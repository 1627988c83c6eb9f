-- What only private functions and proofs cite.
pub mod Loops
pub mod Counts
pub mod Weights
