pub mod Plains
pub mod Ranked
pub mod Framing
pub mod Taking
pub mod Starting
