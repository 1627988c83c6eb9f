pub mod Passing
pub mod Beginning
