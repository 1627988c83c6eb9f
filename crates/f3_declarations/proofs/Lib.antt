mod KindNames
mod Prefixes
pub mod Turns
