pub mod Assumed
pub mod Content
pub mod Frames
pub mod Free
pub mod Valuation
