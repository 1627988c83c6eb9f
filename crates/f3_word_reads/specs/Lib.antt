pub mod Packed
pub mod Scalars
pub mod Taken
pub mod Reads
