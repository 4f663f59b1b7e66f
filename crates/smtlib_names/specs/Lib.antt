pub mod Binders
pub mod Named
