pub mod Carrying
pub mod CommandForms
pub mod Puts
pub mod Solutions
pub mod TextLines
