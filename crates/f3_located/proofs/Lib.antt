pub mod Arrays
pub mod Declaring
pub mod Inside
pub mod Moving
pub mod Parting
pub mod Spreading
