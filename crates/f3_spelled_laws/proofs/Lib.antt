pub mod Lists
pub mod Expressions
pub mod Actions
pub mod Forms
pub mod Once
pub mod Blocks
pub mod Units
