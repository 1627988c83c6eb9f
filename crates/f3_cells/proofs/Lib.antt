pub mod Below
pub mod SoFar
pub mod Steps
