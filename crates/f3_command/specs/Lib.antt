pub mod Report
pub mod Work
pub mod Task
pub mod Program
