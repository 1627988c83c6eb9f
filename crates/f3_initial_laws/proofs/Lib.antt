pub mod Monotone
pub mod Shapes
pub mod Initials
pub mod Listed
pub mod Whole
