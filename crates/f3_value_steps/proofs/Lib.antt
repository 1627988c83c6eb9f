pub mod Ends
pub mod Many
pub mod Components
pub mod Positions
