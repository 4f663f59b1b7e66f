mod FormsRead
mod LabelTables
pub mod SortsRead
pub mod Rows
