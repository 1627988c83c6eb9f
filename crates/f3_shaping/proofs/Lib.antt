pub mod Widths
pub mod Fits
pub mod Spans
pub mod Spreads
pub mod Takes
pub mod Trees
pub mod Texts
pub mod Prints
