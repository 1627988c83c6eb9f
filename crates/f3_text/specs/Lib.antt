pub mod Lines
pub mod Statements
pub mod Examples
pub mod Reader
pub mod Ends
pub mod Cutting
pub mod Laws
pub mod Inner
