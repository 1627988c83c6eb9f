pub mod Hosts
pub mod Access
pub mod Listing
pub mod Parts
pub mod Tables
pub mod Lookups
pub mod Pairs
pub mod Inner
