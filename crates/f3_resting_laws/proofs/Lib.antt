pub mod Acting
pub mod Resting
pub mod Lines
