pub mod Names
pub mod Given
