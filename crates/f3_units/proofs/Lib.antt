pub mod Roles
pub mod Scopes
pub mod Spelled
pub mod Reached
pub mod Depths
pub mod Nesting
pub mod Moving
