pub mod Locals
pub mod Headers
pub mod Dummies
pub mod Inner
