pub mod Lists
pub mod Counted
pub mod Contexts
pub mod Standing
pub mod Varying
