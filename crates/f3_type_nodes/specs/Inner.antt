-- What only private functions and proofs cite.
pub mod Finals
pub mod Units
