mod Standing
pub mod Linking
pub mod Widths
