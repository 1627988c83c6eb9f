pub mod Holding
pub mod Returning
pub mod Calling
pub mod Associations
pub mod Standing
