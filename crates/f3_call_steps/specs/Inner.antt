-- What only private functions and proofs cite.
pub mod Associating
pub mod Entering
pub mod Standing
