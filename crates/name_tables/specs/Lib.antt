pub mod Growth
pub mod Names
pub mod Stack
