pub mod Owned
pub mod Laws
pub mod Runs
