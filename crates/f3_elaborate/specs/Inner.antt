-- What only private functions and proofs cite.
pub mod Knows
pub mod Units
