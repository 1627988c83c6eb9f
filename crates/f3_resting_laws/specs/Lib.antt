pub mod Rests
pub mod Laws
