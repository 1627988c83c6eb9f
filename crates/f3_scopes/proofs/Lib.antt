pub mod Views
pub mod Growing
pub mod Longer
pub mod Blocks
