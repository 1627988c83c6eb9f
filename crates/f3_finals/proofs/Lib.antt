pub mod Ends
pub mod Found
pub mod Made
pub mod Ranked
pub mod Rows
