pub mod Commands
pub mod Labels
pub mod Scripts
pub mod Means
pub mod Takes
