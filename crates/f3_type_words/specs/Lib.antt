pub mod Tables
pub mod Most
