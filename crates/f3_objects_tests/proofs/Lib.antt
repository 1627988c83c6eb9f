pub mod Growing
pub mod Beside
pub mod Tall
pub mod Filling
pub mod TwoLists
