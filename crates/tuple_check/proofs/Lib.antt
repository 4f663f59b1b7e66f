pub mod TupleLists
pub mod Arguments
pub mod Truths
pub mod Choices
pub mod AllChoices
