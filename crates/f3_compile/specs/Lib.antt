pub mod Compiled
pub mod Compiles
pub mod Listings
