pub mod Parts
pub mod Greatest
