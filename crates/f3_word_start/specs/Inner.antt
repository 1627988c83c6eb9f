-- What only private functions and proofs cite.
pub mod Declared
pub mod Stacks
pub mod Taken
