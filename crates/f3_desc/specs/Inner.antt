-- What only private functions and proofs cite.
pub mod Congruent
pub mod Cuts
