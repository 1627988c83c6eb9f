pub mod LiveOnce
