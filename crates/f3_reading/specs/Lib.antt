pub mod Parts
pub mod Lists
pub mod Names
pub mod Laws
