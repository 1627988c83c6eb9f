pub mod Holders
pub mod Entities
pub mod Texts
pub mod Parts
pub mod Tables
pub mod Answers
pub mod Inner
