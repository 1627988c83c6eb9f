mod Known
mod Members
mod Passing
mod Rules
mod Twice
pub mod Constructs
