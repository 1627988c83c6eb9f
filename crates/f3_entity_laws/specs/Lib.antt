pub mod Things
pub mod Laws
