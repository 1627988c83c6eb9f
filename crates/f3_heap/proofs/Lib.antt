pub mod Slots
pub mod Asking
mod Ends
mod Hinted
mod Sizes
mod Short
