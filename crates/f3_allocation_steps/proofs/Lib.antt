pub mod Acting
pub mod Walking
pub mod Dimensions
pub mod Moving_over
