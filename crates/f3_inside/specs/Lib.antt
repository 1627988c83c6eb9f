pub mod Entities
pub mod Exchanged
pub mod Outside
pub mod Standing
