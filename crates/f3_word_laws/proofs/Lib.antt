pub mod There
pub mod Telling
pub mod Coming
pub mod Fair
mod FairParts
pub mod FairLines
