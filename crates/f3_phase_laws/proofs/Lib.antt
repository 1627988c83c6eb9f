pub mod Lists
pub mod Expressions
pub mod Declarations
pub mod Statements
pub mod Program
pub mod Order
pub mod Constructs
pub mod Numbers
