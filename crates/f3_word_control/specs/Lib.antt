pub mod Operands
pub mod Doing
pub mod Texts
