pub mod Shown
pub mod Phases
pub mod Joined
