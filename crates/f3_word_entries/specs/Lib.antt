pub mod Names
pub mod Ranked
pub mod Entered
pub mod Doing
