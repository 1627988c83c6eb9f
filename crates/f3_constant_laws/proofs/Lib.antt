pub mod Keeping
pub mod Units
