pub mod Runs
mod Rows
mod Parts
mod Values
mod Walks
mod Places
