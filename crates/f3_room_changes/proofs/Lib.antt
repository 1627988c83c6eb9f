pub mod Finding
pub mod Bounding
pub mod Places
pub mod Freeing
pub mod Copied
pub mod Allocated
pub mod Moved
