pub mod Ones
pub mod Headers
pub mod Roles
pub mod Firsts
