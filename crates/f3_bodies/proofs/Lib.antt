pub mod Walk
pub mod Arms
