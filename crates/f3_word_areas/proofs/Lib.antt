mod Laying
mod Wide
mod Triplets
pub mod There
pub mod Picking
pub mod Types
pub mod Components
pub mod Further
pub mod Variables
pub mod Plain
