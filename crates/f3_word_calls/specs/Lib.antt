pub mod Taken
pub mod Doing
pub mod Nexts
pub mod Gone
pub mod Bounds
