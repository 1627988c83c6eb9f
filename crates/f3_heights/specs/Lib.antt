pub mod Effect
pub mod Heights
pub mod Program
pub mod Needs
pub mod Room
pub mod Laws
