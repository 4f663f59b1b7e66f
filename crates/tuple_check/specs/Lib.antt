pub mod Tuples
pub mod Failing
