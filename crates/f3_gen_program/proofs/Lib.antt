pub mod EmittedFor
pub mod ForProgram
pub mod Placed
pub mod Whole
