pub mod Chain
pub mod Leading
