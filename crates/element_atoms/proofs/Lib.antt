pub mod AtomTest
pub mod Pools
pub mod Numbers
pub mod Truths
