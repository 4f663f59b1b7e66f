pub mod Arities
pub mod MapLaws
