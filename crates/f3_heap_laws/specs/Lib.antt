pub mod Account
pub mod Answers
pub mod FreeRuns
pub mod Gaps
pub mod Hints
pub mod Placed
pub mod Rules
pub mod Segments
