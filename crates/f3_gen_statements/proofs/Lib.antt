pub mod Chains
pub mod Constructs
pub mod Lists
