pub mod At
pub mod Among
