pub mod Taken
pub mod Spread
pub mod Puts
pub mod Fits
