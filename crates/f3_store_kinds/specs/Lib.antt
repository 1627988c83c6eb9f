pub mod Typing
pub mod Accords
pub mod Clean
pub mod There
pub mod Laws
