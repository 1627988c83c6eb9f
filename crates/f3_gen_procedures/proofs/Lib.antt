pub mod Newest
pub mod Held
