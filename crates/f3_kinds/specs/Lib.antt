pub mod Things
pub mod Rows
pub mod Operands
pub mod Designators
pub mod Calls
pub mod Typing
pub mod Values
