pub mod Parts
pub mod Said
pub mod Numbers
pub mod Examples
pub mod Asked
