pub mod Granting
pub mod Following
