pub mod Variables
pub mod Cutting
pub mod Arguments
pub mod Counted
pub mod Dummies
pub mod Data
pub mod Rooming
pub mod Going
pub mod Callee
pub mod Sources
pub mod Calling
mod Wanting
mod Asking
