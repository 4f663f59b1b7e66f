pub mod Chains
pub mod Clauses
pub mod Definitions
pub mod Digests
pub mod Rows
