pub mod Plans
pub mod Scopes
