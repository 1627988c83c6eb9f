pub mod Members
pub mod Rounds
pub mod Holding
pub mod Steps
pub mod Spreading
