mod Lists
mod Tops
mod Passing
mod Shaping
pub mod Members
mod Popping
mod Choosing
mod Picked
mod Above
mod Sectioning
mod Single
mod Each
mod Around
mod Reaching
mod Beside
pub mod Named
mod Referring
