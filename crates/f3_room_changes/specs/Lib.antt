pub mod Allocations
