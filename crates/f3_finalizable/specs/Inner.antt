-- What only private functions and proofs cite.
pub mod Holders
pub mod Marks
