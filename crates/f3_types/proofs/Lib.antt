pub mod Begun
pub mod Counting
pub mod One
pub mod Fitting
pub mod Scenes
pub mod Standing
pub mod Ending
pub mod Phases
