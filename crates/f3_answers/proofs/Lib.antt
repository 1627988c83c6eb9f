pub mod Regular
pub mod Parts
pub mod Steered
pub mod Acting
pub mod Answering
