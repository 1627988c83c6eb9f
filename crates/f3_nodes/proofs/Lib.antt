pub mod Members
pub mod Walking
pub mod Searching
pub mod Rising
