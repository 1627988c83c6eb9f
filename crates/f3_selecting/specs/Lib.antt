pub mod Sources
pub mod Selecting
pub mod Private
pub mod Places
