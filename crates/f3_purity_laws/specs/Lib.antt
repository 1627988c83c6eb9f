pub mod Calls
pub mod Laws
pub mod Guarded
pub mod Barring
pub mod Owning
pub mod Composed
