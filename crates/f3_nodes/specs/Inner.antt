-- What only private functions and proofs cite.
pub mod Marks
pub mod Search
