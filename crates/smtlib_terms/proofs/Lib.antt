pub mod DeepRows
pub mod Rows
pub mod SortTrees
pub mod Steps
pub mod TermTrees
pub mod Tests
pub mod Texts
