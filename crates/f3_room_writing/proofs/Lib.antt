pub mod Bounding
pub mod Filling
pub mod Leaving
pub mod Parts
pub mod Tables
