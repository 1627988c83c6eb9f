pub mod Destroying
pub mod Emitting
pub mod Finals
pub mod Dropping
