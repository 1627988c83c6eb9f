pub mod Capping
pub mod Shaping
pub mod Initials
