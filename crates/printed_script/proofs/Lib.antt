pub mod Declarations
pub mod Labels
pub mod Commands
pub mod Lengths
