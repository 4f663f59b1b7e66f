pub mod Profile
pub mod Atoms
pub mod Numbering
pub mod PoolSteps
