pub mod Table
pub mod Agrees
pub mod Surroundings
