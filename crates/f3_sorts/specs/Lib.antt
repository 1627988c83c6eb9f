pub mod Effect
pub mod Sorts
pub mod Program
pub mod Laws
