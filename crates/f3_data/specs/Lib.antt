pub mod Values
pub mod Taken
pub mod Stores
pub mod Each
pub mod Lent
pub mod References
