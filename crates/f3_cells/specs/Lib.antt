pub mod Cells
pub mod States
pub mod Follows
pub mod Popped
pub mod Moves
