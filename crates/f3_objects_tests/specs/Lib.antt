pub mod Grows
pub mod Lists
