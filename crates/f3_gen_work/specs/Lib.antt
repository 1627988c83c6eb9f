pub mod Destroyed
pub mod EmittedIn
