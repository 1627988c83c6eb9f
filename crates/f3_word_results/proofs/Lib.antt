pub mod Forms
pub mod Copied
pub mod Returned
pub mod Resulting
