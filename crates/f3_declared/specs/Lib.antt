pub mod Standings
pub mod Declarations
pub mod Scenery
pub mod Spots
pub mod Next
pub mod Inner
