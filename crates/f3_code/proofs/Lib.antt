pub mod Modulo
pub mod Rows
