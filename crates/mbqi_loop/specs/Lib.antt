pub mod Refuted
pub mod Outcome
pub mod Journal
pub mod Listed
pub mod Assigned
