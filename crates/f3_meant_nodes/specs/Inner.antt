-- What only private functions and proofs cite.
pub mod Components
pub mod Values
