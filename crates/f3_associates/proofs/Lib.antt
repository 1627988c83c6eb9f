pub mod Stepping
pub mod Settled
pub mod Exchanged
pub mod Inside
