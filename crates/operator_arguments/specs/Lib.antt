pub mod Measured
pub mod Counts
