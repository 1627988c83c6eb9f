pub mod Chosen
pub mod Filled
pub mod Fitting
pub mod Walks
pub mod Inner
