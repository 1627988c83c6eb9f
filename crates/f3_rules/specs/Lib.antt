pub mod Rule
pub mod Least
pub mod Line
