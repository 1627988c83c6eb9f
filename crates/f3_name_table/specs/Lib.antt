pub mod NameTable
pub mod Answers
pub mod Inner
