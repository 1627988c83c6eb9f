-- What only private functions and proofs cite.
pub mod Positions
pub mod Structures
