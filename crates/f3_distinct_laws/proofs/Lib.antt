pub mod Again
pub mod Standing
pub mod Distinct
pub mod Entities
