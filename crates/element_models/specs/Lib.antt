pub mod Elements
pub mod Example
pub mod Filling
pub mod Rows
