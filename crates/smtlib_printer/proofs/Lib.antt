pub mod FormulaTexts
pub mod Fronts
pub mod Longest
pub mod Marks
pub mod Pieces
mod Rows
pub mod TermTexts
