pub mod Members
pub mod Steps
pub mod Privacy
