pub mod Lists
pub mod Operands
