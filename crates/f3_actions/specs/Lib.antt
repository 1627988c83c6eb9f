pub mod Views
pub mod Actions
pub mod Inner
