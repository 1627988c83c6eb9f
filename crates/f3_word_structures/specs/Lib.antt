pub mod Members
pub mod Fitting
