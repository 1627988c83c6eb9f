pub mod Forms
pub mod Roots
pub mod Everywhere
pub mod Finding
pub mod Holding
pub mod Stepping
pub mod Running
