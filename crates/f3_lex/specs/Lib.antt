pub mod Tokens
pub mod Faults
pub mod Laws
pub mod Examples
