pub mod Steps
pub mod Places
pub mod Said
pub mod Walk
