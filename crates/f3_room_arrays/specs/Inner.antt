-- What only private functions and proofs cite.
pub mod Numbers
pub mod Clones
