pub mod Taken
pub mod Shapes
pub mod Parts
pub mod Variables
pub mod Picks
pub mod Each
