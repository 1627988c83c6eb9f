pub mod Ending
pub mod Does
pub mod Widths
pub mod Spans
