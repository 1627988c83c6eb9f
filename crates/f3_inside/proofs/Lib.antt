pub mod Entered
mod Exchanged
pub mod Same
