pub mod Actions
pub mod Cases
pub mod Statements
pub mod SeenStatements
pub mod InMemory
