pub mod Listing
pub mod Inner
