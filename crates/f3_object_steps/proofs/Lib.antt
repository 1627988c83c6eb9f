pub mod Running
pub mod Ending
pub mod Forms
pub mod Turning
pub mod Meant
pub mod Stepping
pub mod Selecting
pub mod Selections
pub mod Picks
mod Tops
pub mod FirstPlaces
