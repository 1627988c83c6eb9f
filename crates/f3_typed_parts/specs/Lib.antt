pub mod Noted
pub mod Known
