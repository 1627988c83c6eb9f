pub mod Roles
pub mod Units
pub mod Machine
pub mod Depth
pub mod Laws
