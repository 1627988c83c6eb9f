-- What only private functions and proofs cite.
pub mod Kinds
pub mod Ways
