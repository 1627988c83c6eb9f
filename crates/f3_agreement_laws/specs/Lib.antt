pub mod Unbroken
pub mod Laws
