pub mod Depths
pub mod Cuts
pub mod Judge
pub mod Fronts
pub mod Parsing
