pub mod Noting
pub mod Walking
