pub mod Tokens
pub mod Expressions
pub mod Actions
pub mod Forms
pub mod Blocks
pub mod Units
pub mod Declarations
