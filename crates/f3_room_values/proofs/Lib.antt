pub mod Trees
pub mod Telling
pub mod Leaving
pub mod Arranging
