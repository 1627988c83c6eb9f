-- What only private functions and proofs cite.
pub mod Passes
pub mod Found
pub mod Links
pub mod Views
