pub mod ArrayLaws
pub mod FormulaLaws
pub mod ListLaws
pub mod SymbolLaws
pub mod TermLaws
