pub mod Attributes
pub mod Walking
pub mod Fitting
pub mod Same
pub mod Activations
pub mod Entries
pub mod Procedures
