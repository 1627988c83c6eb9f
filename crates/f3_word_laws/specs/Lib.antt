pub mod Comes
pub mod Laws
