pub mod Answering
pub mod Course
pub mod Beginning
mod Never
pub mod Doing
pub mod Roomy
pub mod Keeping
