pub mod Course
pub mod Leading
pub mod Stepping
pub mod Silent
pub mod Beginning
pub mod Planned
pub mod Printed
