pub mod Calling
pub mod Guarded
pub mod Sensible
pub mod Owning
pub mod Composed
