mod Objects
pub mod Cases
