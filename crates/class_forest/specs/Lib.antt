pub mod Classes
pub mod Forest
pub mod Joined
pub mod Kept
pub mod Marks
pub mod Path
