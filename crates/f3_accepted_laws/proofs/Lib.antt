pub mod Outer
pub mod Join
pub mod Unbroken
pub mod Accepted
pub mod Sense
pub mod Quiet
