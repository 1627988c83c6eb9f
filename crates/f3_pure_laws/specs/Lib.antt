pub mod References
pub mod Pure
pub mod Laws
pub mod Ending
