-- What only private functions and proofs cite.
pub mod Said
pub mod Holders
pub mod Laid
