pub mod Arities
pub mod Ends
pub mod Subtractions
