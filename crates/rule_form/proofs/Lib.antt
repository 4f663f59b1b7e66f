pub mod Putting
pub mod Rests
pub mod Shapes
pub mod Wholes
pub mod RuleInstances
pub mod Chosen
pub mod Rows
