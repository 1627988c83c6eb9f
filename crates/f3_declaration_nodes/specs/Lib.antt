pub mod Tables
pub mod Stands
pub mod Variables
