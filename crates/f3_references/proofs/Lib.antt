pub mod Matching
pub mod Apart
pub mod Actuals
pub mod Building
