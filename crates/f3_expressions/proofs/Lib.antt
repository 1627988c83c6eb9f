pub mod Runs
pub mod Fronts
pub mod Lists
pub mod Operands
pub mod Prefixes
pub mod Chains
