pub mod Lengths
pub mod Characters
pub mod Numbers
pub mod Computed
