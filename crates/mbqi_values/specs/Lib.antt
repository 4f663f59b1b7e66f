pub mod Clauses
pub mod FaultKind
pub mod Refusal
pub mod Status
pub mod Sum
pub mod Value
