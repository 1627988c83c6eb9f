pub mod Putting
pub mod Taking
pub mod Placing
